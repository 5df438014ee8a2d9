-- From the code to the demands: the contracts of the calls are the definitions that the demands cite, and the routines meet them.
pub mod Contracts
pub mod Routines
