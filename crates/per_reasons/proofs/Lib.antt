mod Dumped
mod Results
mod Ruled
mod Things
mod Types
mod Wrong
