-- What is said of an answer that may be an error.
use Rattle.std.specs.Prelude.{OnOk, Result, Ok, Err}

pub OnOk-weaker : {T E : Type 0} (r : Result T E) (P Q : Type 0) → (P → Q) → OnOk r P → OnOk r Q
OnOk-weaker (Ok x) P Q f p = f p
OnOk-weaker (Err e) P Q f p = p
