pub mod Tests
pub mod Grammar
pub mod Concrete
pub mod Machine
pub mod Recogniser
pub mod Laws
