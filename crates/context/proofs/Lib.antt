pub mod Laws
mod Small
