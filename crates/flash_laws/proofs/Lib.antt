mod Contents
mod Costs
mod Left
mod Lengths
mod Newest
mod Outvoted
