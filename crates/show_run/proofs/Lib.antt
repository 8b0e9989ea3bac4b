mod Ending
mod Framing
mod Reporting
mod Showing
mod Turning
