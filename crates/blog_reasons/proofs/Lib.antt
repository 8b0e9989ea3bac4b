mod Looking
mod SeenTables
mod SeenUnits
mod TablesNamed
