pub mod FileText
