-- The links and triangles found by flags are those of the cut.
use Rattle.std.proofs.Common.{◌≡◌, ℕ, ◌<◌, Bool, false, ℤ, List, [], length, ap, sym, ◌∙◌, subst, arith}
use Rattle.std.specs.Prelude.{map, flat_map, All, slice_index_or}
use Rattle.std.proofs.lemmas.List.{get_or-map, length-map}
use Rattle.lists.specs.Members.{In}
use Rattle.lists.specs.Orders.{sorted}
use Rattle.lists.proofs.Contained.{All-from_each, each-from_All, Contains-sorted}
use Rattle.lists.proofs.MemberLaws.{Contains_from}
use Rattle.iso_model.specs.Faces.{Mesh}
use Rattle.iso_model.specs.Tables.{Table}
use Rattle.cut_laws.specs.declared.Link.{Link}
use Rattle.cut_laws.specs.Cuts.{is_late_position, is_late, links, links_below, position_on, triangles_in, cut_of}
use Rattle.cut_laws.specs.CutSteps.{IsSimplex}
use Rattle.cut_laws.proofs.FoundLinks.{link_ends}
use Rattle.cut_laws.proofs.SameFlags.{Agree, same_links, same_triangles, joined_same}
use Rattle.mesh_slice.specs.Slices.{late_by, Name, AreSimplices, IsCrossed}

-- the numbers of a simplex in order name vertices too
pub name_sorted : (n : ℕ) (w : List ℕ) → Name n w → Name n (sorted w)
name_sorted n w below = All-from_each (λ k. k < n) (sorted w) (λ k c. each-from_All (λ k. k < n) w below k (Contains-sorted w k c))

module _ (m : Mesh) (time : ℤ) (flags : List Bool) (found : flags ≡ map (is_late_position time) m.vertices) where
  pub flags_agree : Agree (length m.vertices) (late_by flags) (is_late m time)
  flags_agree k h =
      ap (λ (bs : List Bool). slice_index_or bs k false) found ∙ get_or-map (is_late_position time) m.vertices k [] false h

  pub flags_length : length flags ≡ length m.vertices
  flags_length = ap length found ∙ length-map m.vertices (is_late_position time)

  pub links_found : links_below (length flags) (late_by flags) m.simplices ≡ links m time
  unfolding links
  links_found =
      ap (λ (n : ℕ). links_below n (late_by flags) m.simplices) flags_length
      ∙ same_links (length m.vertices) (late_by flags) (is_late m time) m.simplices flags_agree

  pub each_simplex : AreSimplices (length flags) m.simplices → (w : List ℕ) → In w m.simplices → IsSimplex (length m.vertices) w
  each_simplex are w i =
      subst (λ (n : ℕ). IsSimplex n w) flags_length (each-from_All (IsSimplex (length flags)) m.simplices are w (Contains_from m.simplices w i))

  -- the mesh of these vertices and triangles
  pub cut_is : (t : Table) (ls : List Link) (moment : Mesh) → AreSimplices (length flags) m.simplices
      → ls ≡ links_below (length flags) (late_by flags) m.simplices → moment.vertices ≡ map (position_on m.vertices time) ls
      → moment.simplices ≡ flat_map (triangles_in (late_by flags) ls t) m.simplices → moment ≡ cut_of m t time
  unfolding cut_of
  cut_is t ls moment are listed vertices simplices =
      let whole : ls ≡ links m time = listed ∙ links_found in
      let positions : moment.vertices ≡ map (position_on m.vertices time) (links m time) = vertices ∙ ap (map (position_on m.vertices time)) whole in
      let triangles : moment.simplices ≡ flat_map (triangles_in (is_late m time) (links m time) t) m.simplices =
      simplices ∙ ap (λ (ks : List Link). flat_map (triangles_in (late_by flags) ks t) m.simplices) whole
      ∙ joined_same (triangles_in (late_by flags) (links m time) t) (triangles_in (is_late m time) (links m time) t) m.simplices
      (λ w i. same_triangles (length m.vertices) (late_by flags) (is_late m time) (links m time) t w (each_simplex are w i) flags_agree) in
      λ i. record { vertices = positions i; simplices = triangles i }

  -- each link is crossed
  pub links_crossed : (ls : List Link) → ls ≡ links_below (length flags) (late_by flags) m.simplices → All (IsCrossed m.vertices time) ls
  unfolding links
  links_crossed ls listed =
      let whole : ls ≡ links_below (length m.vertices) (is_late m time) m.simplices = listed ∙ links_found in
      subst (λ (ks : List Link). All (IsCrossed m.vertices time) ks) (sym whole)
      (All-from_each (IsCrossed m.vertices time) (links_below (length m.vertices) (is_late m time) m.simplices) (λ l c.
      let ends = link_ends (length m.vertices) (is_late m time) m.simplices l c in
      record { low = omega (arith, ends.0, ends.1); high = ends.1; parted = ends.2 }))
