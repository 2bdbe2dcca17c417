mod GrowingLists
mod Shares
mod WholeCuts
mod PlacedTriangles
