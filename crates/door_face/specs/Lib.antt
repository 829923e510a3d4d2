pub mod Doors
pub mod Duties
pub mod FailingGate
pub mod FailingInTurn
pub mod FailingWay
pub mod MemGate
pub mod MemWay
pub mod SocketGate
