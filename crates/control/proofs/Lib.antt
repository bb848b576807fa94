mod Laws
mod Tree
