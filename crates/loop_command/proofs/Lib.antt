pub mod LostEdges
pub mod ThinnedListeners
pub mod ScriptTurns
pub mod Turns
pub mod WrittenLines
