pub mod PrintProperties
