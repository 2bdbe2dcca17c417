use Rattle.std.proofs.Common.{◌-◌, ◌≡◌, ◌≤◌, length, take}
use Rattle.table_file.proofs.heads.agreement.Given as goal

abbrev pub invariant-loop-place : goal.invariant-loop-place
invariant-loop-place l = record { inside_head : l.place ≤ 16; inside : l.place ≤ length l.bytes; same : take l.place l.bytes ≡ take l.place l.head }

abbrev pub decreases-loop-place : goal.decreases-loop-place
decreases-loop-place l = 16 - l.place
