pub mod PrintNodes
