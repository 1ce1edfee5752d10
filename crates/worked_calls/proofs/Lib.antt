mod GateCrossing
mod Standing
mod Telling
mod Trying
