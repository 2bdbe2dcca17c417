mod TupleRows
mod Chunks
mod EntryLaws
mod HeadLaws
mod IndexLaws
mod IndexedWritingLaws
mod BodyLaws
mod IndexedReading
mod Progress
mod RefusalLaws
pub mod WritingLaws
mod CheckLaws
mod Beginnings
mod Causes
pub mod FaultLaws
pub mod FileLaws
mod FileCauses
pub mod FileFaultLaws
mod SomeFault
pub mod InverseLaws
pub mod LimitLaws
