-- How a scan stands after each of its calls.
use Rattle.std.proofs.Common.{ap, arith, refl, sym, subst, ◌∙◌}
use Rattle.std.specs.Prelude.{List, ℕ, ℤ, ◌+◌, ◌-◌, ◌<◌, ◌≡◌, int_le}
use Rattle.iso_model.specs.Values.{Volume}
use Rattle.bit_rows.specs.SampleRows.{is_above, is_clear, is_clear_at}
use Rattle.grid_rows.specs.declared.planes.BitPlane.{BitPlane}
use Rattle.grid_rows.specs.RowNumbers.{bordered_rows}
use Rattle.layer_scan.specs.declared.scan.LayerPlanes.{LayerPlanes}
use Rattle.layer_scan.specs.CubePlanes.{AreCubeBits, AreEither, every_at}
use Rattle.layer_scan.specs.GridPlanes.{TellsKept, TellsSigns, slice_of}
use Rattle.layer_scan.specs.GridStates.{HasSignsBelow, IsScanOf, StandsAt, StandsBetween, TakesFlags, TakesLower, TakesUpper, TellsClear, slice_count}
use Rattle.layer_scan.specs.ScanPlanes.{HasPlanes, IsMovedOn}
use Rattle.layer_scan.specs.SlicePlanes.{AreSampleBits, samples_of}
use Rattle.layer_scan.proofs.GridSlices.{told_of_slice}
use Rattle.layer_scan.proofs.KeptCubes.{kept_by_clear}

-- a plane that has the signs of a slice tells them, and one that has what is not blank tells that
signs_tell : (v : Volume) (s : ℕ) (slice : List ℤ) (planes : LayerPlanes) (plane : BitPlane) → IsScanOf v planes → s < slice_count v
    → slice ≡ slice_of planes.rows v.samples s → AreSampleBits planes.rows (is_above planes.iso) slice plane → TellsSigns v planes.rows s plane
signs_tell v s slice planes plane scan inside same bits =
    told_of_slice v planes.rows s (int_le v.iso) plane scan.regular scan.rows inside (λ n h x.
    bits n h x ∙ ap (λ (z : ℤ). is_above z (samples_of planes.rows slice n) x) scan.iso
    ∙ ap (λ l. is_above v.iso (samples_of planes.rows l n) x) same)

clear_tells : (v : Volume) (s : ℕ) (slice : List ℤ) (planes : LayerPlanes) (plane : BitPlane) → IsScanOf v planes → s < slice_count v
    → slice ≡ slice_of planes.rows v.samples s → AreSampleBits planes.rows (is_clear_at planes.blank) slice plane
    → TellsClear v planes.blank planes.rows s plane
clear_tells v s slice planes plane scan inside same bits =
    told_of_slice v planes.rows s (is_clear planes.blank) plane scan.regular scan.rows inside (λ n h x.
    bits n h x ∙ ap (λ l. is_clear_at planes.blank (samples_of planes.rows l n) x) same)

-- when a slice was taken as the lower one
pub stands_begun : (v : Volume) (s : ℕ) (slice : List ℤ) (old : LayerPlanes) (signs clear : BitPlane) → TakesLower v s slice old
    → AreSampleBits old.rows (is_above old.iso) slice signs → AreSampleBits old.rows (is_clear_at old.blank) slice clear
    → StandsAt v s (record old { lower_signs = signs; lower_clear = clear })
stands_begun v s slice old signs clear takes above other = record {
  scan = record { regular = takes.scan.regular; rows = takes.scan.rows; iso = takes.scan.iso };
  signs = signs_tell v s slice old signs takes.scan takes.inside takes.slice above;
  clear = clear_tells v s slice old clear takes.scan takes.inside takes.slice other;
  below = takes.below;
}

-- when the slice above it was taken
pub stands_taken : (v : Volume) (s : ℕ) (slice : List ℤ) (old : LayerPlanes) (signs clear kept around : BitPlane) → TakesUpper v s slice old
    → HasPlanes (record old { upper_signs = signs; upper_clear = clear; kept = kept; around = around })
    → AreSampleBits old.rows (is_above old.iso) slice signs → AreSampleBits old.rows (is_clear_at old.blank) slice clear
    → AreCubeBits old.rows (every_at old.lower_clear clear old.rows) kept → AreEither (bordered_rows old.rows) old.kept_below kept around
    → StandsBetween v s (record old { upper_signs = signs; upper_clear = clear; kept = kept; around = around })
stands_taken v s slice old signs clear kept around takes planes above other cubes either =
    let scan = takes.lower.scan in
    let clears = clear_tells v (s + 1) slice old clear scan takes.inside takes.slice other in
    record {
      lower = record {
        scan = record { regular = scan.regular; rows = scan.rows; iso = scan.iso };
        signs = takes.lower.signs;
        clear = takes.lower.clear;
        below = takes.lower.below;
      };
      signs = signs_tell v (s + 1) slice old signs scan takes.inside takes.slice above;
      clear = clears;
      kept = kept_by_clear v old.blank old.rows s old.lower_clear clear kept scan.regular.fits scan.rows takes.inside takes.lower.clear clears takes.keeps
          cubes planes.border planes.within;
      around = either;
    }

-- when the upper slice is the lower one
pub stands_moved : (v : Volume) (s : ℕ) (old new : LayerPlanes) → IsMovedOn old new → StandsBetween v s old
    → StandsAt v (s + 1) new × HasSignsBelow v (s + 1) new
stands_moved v s old new moved stands = subst (λ p. StandsAt v (s + 1) p × HasSignsBelow v (s + 1) p) (sym moved) (
  record {
    scan = record { regular = stands.lower.scan.regular; rows = stands.lower.scan.rows; iso = stands.lower.scan.iso };
    signs = stands.signs;
    clear = stands.clear;
    below = (λ none. absurd (omega (arith, none)), λ some. subst (λ t. TellsKept v old.rows t old.kept) back stands.kept);
  },
  λ some. subst (λ t. TellsSigns v old.rows t old.lower_signs) back stands.lower.signs,
)
  where
    back : s ≡ s + 1 - 1
    back = omega arith
