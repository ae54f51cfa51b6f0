pub mod Opened
pub mod CommonsTable
pub mod MovedStore
pub mod Appended
pub mod AppendedBlocks
pub mod GrownStore
pub mod HubStore
