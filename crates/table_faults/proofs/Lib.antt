pub mod FaultLists
mod OneFaultList
mod FaultTexts
