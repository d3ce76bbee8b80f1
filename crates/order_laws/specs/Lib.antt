pub mod LiesOrders
