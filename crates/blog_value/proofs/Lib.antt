mod DatesRead
mod DecimalBytes
mod DecimalDigits
mod Digits
mod Widths
