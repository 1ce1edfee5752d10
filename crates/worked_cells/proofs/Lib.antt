mod CameBack
mod Closing
mod FreshSectors
mod Holding
