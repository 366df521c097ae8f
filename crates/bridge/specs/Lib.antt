pub mod View
pub mod Histories
pub mod Bridged
pub mod Systems
pub mod Demands
pub mod Listing
