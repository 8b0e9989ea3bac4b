-- Small logs with rows events of version 1, and of servers before 5.6.1, byte by byte.
use Rattle.std.specs.Prelude.{ℕ, List, [], ◌∷◌, ◌++◌}
use Rattle.blog_examples.specs.Logs.{no_changes}

-- one row is inserted, by version 1; 257 bytes
abbrev pub insert_of_version_1 : List ℕ
insert_of_version_1 =
    no_changes
    -- 120: `BEGIN`
    ++ 0 ∷ 0 ∷ 0 ∷ 0 ∷ 2 ∷ 1 ∷ 0 ∷ 0 ∷ 0 ∷ 39 ∷ 0 ∷ 0 ∷ 0 ∷ 159 ∷ 0 ∷ 0 ∷ 0 ∷ 0 ∷ 0
    ∷ 0 ∷ 0 ∷ 0 ∷ 0 ∷ 0 ∷ 0 ∷ 0 ∷ 0 ∷ 1 ∷ 0 ∷ 0 ∷ 0 ∷ 0 ∷ 100 ∷ 0 ∷ 66 ∷ 69 ∷ 71 ∷ 73 ∷ 78 ∷ []
    -- 159: a map of `t`, id 1
    ++ 0 ∷ 0 ∷ 0 ∷ 0 ∷ 19 ∷ 1 ∷ 0 ∷ 0 ∷ 0 ∷ 37 ∷ 0 ∷ 0 ∷ 0 ∷ 196 ∷ 0 ∷ 0 ∷ 0 ∷ 0 ∷ 0
    ∷ 1 ∷ 0 ∷ 0 ∷ 0 ∷ 0 ∷ 0 ∷ 1 ∷ 0 ∷ 1 ∷ 100 ∷ 0 ∷ 1 ∷ 116 ∷ 0 ∷ 1 ∷ 3 ∷ 0 ∷ 1 ∷ []
    -- 196: insert of 5
    ++ 0 ∷ 0 ∷ 0 ∷ 0 ∷ 23 ∷ 1 ∷ 0 ∷ 0 ∷ 0 ∷ 34 ∷ 0 ∷ 0 ∷ 0 ∷ 230 ∷ 0 ∷ 0 ∷ 0 ∷ 0 ∷ 0
    ∷ 1 ∷ 0 ∷ 0 ∷ 0 ∷ 0 ∷ 0 ∷ 1 ∷ 0 ∷ 1 ∷ 255 ∷ 254 ∷ 5 ∷ 0 ∷ 0 ∷ 0 ∷ []
    -- 230: Xid
    ++ 0 ∷ 0 ∷ 0 ∷ 0 ∷ 16 ∷ 1 ∷ 0 ∷ 0 ∷ 0 ∷ 27 ∷ 0 ∷ 0 ∷ 0 ∷ 1 ∷ 1 ∷ 0 ∷ 0 ∷ 0 ∷ 0
    ∷ 7 ∷ 0 ∷ 0 ∷ 0 ∷ 0 ∷ 0 ∷ 0 ∷ 0 ∷ []

-- one event of version 1 updates two rows; 273 bytes
abbrev pub updates_of_version_1 : List ℕ
updates_of_version_1 =
    no_changes
    -- 120: `BEGIN`
    ++ 0 ∷ 0 ∷ 0 ∷ 0 ∷ 2 ∷ 1 ∷ 0 ∷ 0 ∷ 0 ∷ 39 ∷ 0 ∷ 0 ∷ 0 ∷ 159 ∷ 0 ∷ 0 ∷ 0 ∷ 0 ∷ 0
    ∷ 0 ∷ 0 ∷ 0 ∷ 0 ∷ 0 ∷ 0 ∷ 0 ∷ 0 ∷ 1 ∷ 0 ∷ 0 ∷ 0 ∷ 0 ∷ 100 ∷ 0 ∷ 66 ∷ 69 ∷ 71 ∷ 73 ∷ 78 ∷ []
    -- 159: a map of `t`, id 1
    ++ 0 ∷ 0 ∷ 0 ∷ 0 ∷ 19 ∷ 1 ∷ 0 ∷ 0 ∷ 0 ∷ 37 ∷ 0 ∷ 0 ∷ 0 ∷ 196 ∷ 0 ∷ 0 ∷ 0 ∷ 0 ∷ 0
    ∷ 1 ∷ 0 ∷ 0 ∷ 0 ∷ 0 ∷ 0 ∷ 1 ∷ 0 ∷ 1 ∷ 100 ∷ 0 ∷ 1 ∷ 116 ∷ 0 ∷ 1 ∷ 3 ∷ 0 ∷ 1 ∷ []
    -- 196: update of 1 to 2 and of 2 to 3
    ++ 0 ∷ 0 ∷ 0 ∷ 0 ∷ 24 ∷ 1 ∷ 0 ∷ 0 ∷ 0 ∷ 50 ∷ 0 ∷ 0 ∷ 0 ∷ 246 ∷ 0 ∷ 0 ∷ 0 ∷ 0 ∷ 0
    ∷ 1 ∷ 0 ∷ 0 ∷ 0 ∷ 0 ∷ 0 ∷ 1 ∷ 0 ∷ 1 ∷ 255 ∷ 255 ∷ 254 ∷ 1 ∷ 0 ∷ 0 ∷ 0 ∷ 254 ∷ 2 ∷ 0 ∷ 0 ∷ 0 ∷ 254 ∷ 2 ∷ 0 ∷ 0 ∷ 0 ∷ 254 ∷ 3 ∷ 0 ∷ 0 ∷ 0 ∷ []
    -- 246: Xid
    ++ 0 ∷ 0 ∷ 0 ∷ 0 ∷ 16 ∷ 1 ∷ 0 ∷ 0 ∷ 0 ∷ 27 ∷ 0 ∷ 0 ∷ 0 ∷ 17 ∷ 1 ∷ 0 ∷ 0 ∷ 0 ∷ 0
    ∷ 7 ∷ 0 ∷ 0 ∷ 0 ∷ 0 ∷ 0 ∷ 0 ∷ 0 ∷ []

-- `updates_of_version_1` undone; 273 bytes
abbrev pub updates_of_version_1_undone : List ℕ
updates_of_version_1_undone =
    no_changes
    -- 120: `BEGIN`
    ++ 0 ∷ 0 ∷ 0 ∷ 0 ∷ 2 ∷ 1 ∷ 0 ∷ 0 ∷ 0 ∷ 39 ∷ 0 ∷ 0 ∷ 0 ∷ 159 ∷ 0 ∷ 0 ∷ 0 ∷ 0 ∷ 0
    ∷ 0 ∷ 0 ∷ 0 ∷ 0 ∷ 0 ∷ 0 ∷ 0 ∷ 0 ∷ 1 ∷ 0 ∷ 0 ∷ 0 ∷ 0 ∷ 100 ∷ 0 ∷ 66 ∷ 69 ∷ 71 ∷ 73 ∷ 78 ∷ []
    -- 159: a map of `t`, id 1
    ++ 0 ∷ 0 ∷ 0 ∷ 0 ∷ 19 ∷ 1 ∷ 0 ∷ 0 ∷ 0 ∷ 37 ∷ 0 ∷ 0 ∷ 0 ∷ 196 ∷ 0 ∷ 0 ∷ 0 ∷ 0 ∷ 0
    ∷ 1 ∷ 0 ∷ 0 ∷ 0 ∷ 0 ∷ 0 ∷ 1 ∷ 0 ∷ 1 ∷ 100 ∷ 0 ∷ 1 ∷ 116 ∷ 0 ∷ 1 ∷ 3 ∷ 0 ∷ 1 ∷ []
    -- 196: update of 3 to 2 and of 2 to 1
    ++ 0 ∷ 0 ∷ 0 ∷ 0 ∷ 24 ∷ 1 ∷ 0 ∷ 0 ∷ 0 ∷ 50 ∷ 0 ∷ 0 ∷ 0 ∷ 246 ∷ 0 ∷ 0 ∷ 0 ∷ 0 ∷ 0
    ∷ 1 ∷ 0 ∷ 0 ∷ 0 ∷ 0 ∷ 0 ∷ 1 ∷ 0 ∷ 1 ∷ 255 ∷ 255 ∷ 254 ∷ 3 ∷ 0 ∷ 0 ∷ 0 ∷ 254 ∷ 2 ∷ 0 ∷ 0 ∷ 0 ∷ 254 ∷ 2 ∷ 0 ∷ 0 ∷ 0 ∷ 254 ∷ 1 ∷ 0 ∷ 0 ∷ 0 ∷ []
    -- 246: Xid
    ++ 0 ∷ 0 ∷ 0 ∷ 0 ∷ 16 ∷ 1 ∷ 0 ∷ 0 ∷ 0 ∷ 27 ∷ 0 ∷ 0 ∷ 0 ∷ 17 ∷ 1 ∷ 0 ∷ 0 ∷ 0 ∷ 0
    ∷ 7 ∷ 0 ∷ 0 ∷ 0 ∷ 0 ∷ 0 ∷ 0 ∷ 0 ∷ []

-- a log of a server of version 5.5.62: the size of its format description, the post-header lengths, and an insert of version 1
abbrev pub old_log : ℕ → List ℕ → List ℕ
old_log size lengths =
    -- 0: the magic number
    254 ∷ 98 ∷ 105 ∷ 110 ∷ []
    -- 4: the format description, without a checksum algorithm
    ++ 0 ∷ 0 ∷ 0 ∷ 0 ∷ 15 ∷ 1 ∷ 0 ∷ 0 ∷ 0 ∷ size ∷ 0 ∷ 0 ∷ 0 ∷ 107 ∷ 0 ∷ 0 ∷ 0 ∷ 0 ∷ 0
    ∷ 4 ∷ 0 ∷ 53 ∷ 46 ∷ 53 ∷ 46 ∷ 54 ∷ 50 ∷ 0 ∷ 0 ∷ 0 ∷ 0 ∷ 0 ∷ 0 ∷ 0 ∷ 0 ∷ 0 ∷ 0 ∷ 0 ∷ 0 ∷ 0 ∷ 0 ∷ 0 ∷ 0 ∷ 0 ∷ 0 ∷ 0 ∷ 0 ∷ 0 ∷ 0 ∷ 0 ∷ 0 ∷ 0 ∷ 0 ∷ 0 ∷ 0 ∷ 0 ∷ 0 ∷ 0 ∷ 0 ∷ 0 ∷ 0 ∷ 0 ∷ 0 ∷ 0 ∷ 0 ∷ 0 ∷ 0 ∷ 0 ∷ 0 ∷ 0 ∷ 0 ∷ 0 ∷ 0 ∷ 0 ∷ 0 ∷ 19 ∷ []
    ++ lengths
    -- 107: `BEGIN`
    ++ 0 ∷ 0 ∷ 0 ∷ 0 ∷ 2 ∷ 1 ∷ 0 ∷ 0 ∷ 0 ∷ 39 ∷ 0 ∷ 0 ∷ 0 ∷ 146 ∷ 0 ∷ 0 ∷ 0 ∷ 0 ∷ 0
    ∷ 0 ∷ 0 ∷ 0 ∷ 0 ∷ 0 ∷ 0 ∷ 0 ∷ 0 ∷ 1 ∷ 0 ∷ 0 ∷ 0 ∷ 0 ∷ 100 ∷ 0 ∷ 66 ∷ 69 ∷ 71 ∷ 73 ∷ 78 ∷ []
    -- 146: a map of `t`, id 1
    ++ 0 ∷ 0 ∷ 0 ∷ 0 ∷ 19 ∷ 1 ∷ 0 ∷ 0 ∷ 0 ∷ 37 ∷ 0 ∷ 0 ∷ 0 ∷ 183 ∷ 0 ∷ 0 ∷ 0 ∷ 0 ∷ 0
    ∷ 1 ∷ 0 ∷ 0 ∷ 0 ∷ 0 ∷ 0 ∷ 1 ∷ 0 ∷ 1 ∷ 100 ∷ 0 ∷ 1 ∷ 116 ∷ 0 ∷ 1 ∷ 3 ∷ 0 ∷ 1 ∷ []
    -- 183: insert of 5
    ++ 0 ∷ 0 ∷ 0 ∷ 0 ∷ 23 ∷ 1 ∷ 0 ∷ 0 ∷ 0 ∷ 34 ∷ 0 ∷ 0 ∷ 0 ∷ 217 ∷ 0 ∷ 0 ∷ 0 ∷ 0 ∷ 0
    ∷ 1 ∷ 0 ∷ 0 ∷ 0 ∷ 0 ∷ 0 ∷ 1 ∷ 0 ∷ 1 ∷ 255 ∷ 254 ∷ 5 ∷ 0 ∷ 0 ∷ 0 ∷ []
    -- 217: Xid
    ++ 0 ∷ 0 ∷ 0 ∷ 0 ∷ 16 ∷ 1 ∷ 0 ∷ 0 ∷ 0 ∷ 27 ∷ 0 ∷ 0 ∷ 0 ∷ 244 ∷ 0 ∷ 0 ∷ 0 ∷ 0 ∷ 0
    ∷ 7 ∷ 0 ∷ 0 ∷ 0 ∷ 0 ∷ 0 ∷ 0 ∷ 0 ∷ []

-- the lengths of 24 event types
abbrev pub lengths_24 : List ℕ
lengths_24 = 56 ∷ 13 ∷ 0 ∷ 8 ∷ 0 ∷ 18 ∷ 0 ∷ 4 ∷ 4 ∷ 4 ∷ 4 ∷ 18 ∷ 0 ∷ 0 ∷ 92 ∷ 0 ∷ 4 ∷ 26 ∷ 8 ∷ 0 ∷ 0 ∷ 0 ∷ 8 ∷ 8 ∷ []

-- of 25
abbrev pub lengths_25 : List ℕ
lengths_25 = lengths_24 ++ 8 ∷ []

-- of 27, as the server writes them; 244 bytes
abbrev pub old_server : List ℕ
old_server = old_log 103 (lengths_25 ++ 2 ∷ 0 ∷ [])
