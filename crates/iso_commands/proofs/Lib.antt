pub mod CommandTests
