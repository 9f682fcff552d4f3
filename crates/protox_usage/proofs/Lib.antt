mod Noting
mod Adding
mod Firsts
mod Outwards
mod Uses
mod Packages
mod Setting
mod Telling
