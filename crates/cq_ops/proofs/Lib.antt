mod Lookups
mod Named
mod Admitted
mod Rows
