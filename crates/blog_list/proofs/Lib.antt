mod Ending
mod Growing
mod Holding
mod OnTheWay
mod Ranked
mod InOrder
mod Whole
