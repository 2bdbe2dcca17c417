-- The links and the triangles depend on the lateness of the numbers below n alone.
use Rattle.std.proofs.Common.{◌≡◌, ℕ, ◌<◌, Bool, List, [], ◌∷◌, ◌++◌, refl, inl, inr, ap, sym, ◌∙◌, subst, arith}
use Rattle.std.specs.Prelude.{map, flat_map, ◌&&◌}
use Rattle.lists.specs.Orders.{is_odd_order}
use Rattle.lists.specs.Members.{In}
use Rattle.lists.proofs.Contained.{filter-same, each-from_All}
use Rattle.lists.proofs.MemberLaws.{Contains_from}
use Rattle.iso_model.specs.Bipolar.{differ}
use Rattle.iso_model.specs.Placed.{placed_tuple}
use Rattle.iso_model.specs.Tables.{Table, entry_of}
use Rattle.mesh_laws.proofs.TakenMembers.{from_In-sorted}
use Rattle.cut_laws.specs.declared.Link.{Link}
use Rattle.cut_laws.specs.Cuts.{pairs, is_link, stand_together, links_below, late_label, link_at, number_in, triangles_in}
use Rattle.cut_laws.specs.CutSteps.{IsSimplex}
use Rattle.cut_laws.proofs.Pairs.{pair_members}
use Rattle.cut_laws.proofs.FoundLinks.{FourInOrder, four_in_order}

pub joined_same : {X Y : Type 0} (f g : X → List Y) (xs : List X) → ((x : X) → In x xs → f x ≡ g x) → flat_map f xs ≡ flat_map g xs
joined_same f g [] h = refl
joined_same {X} {Y} f g (x ∷ xs) h =
    ap (λ (zs : List Y). zs ++ flat_map f xs) (h x (inl refl)) ∙ ap (λ (zs : List Y). g x ++ zs) (joined_same f g xs (λ y i. h y (inr i)))

-- two tests agree on the numbers below n
abbrev pub Agree : ℕ → (ℕ → Bool) → (ℕ → Bool) → Type 0
Agree n late other = (k : ℕ) → k < n → late k ≡ other k

pub same_links : (n : ℕ) (late other : ℕ → Bool) (simplices : List (List ℕ)) → Agree n late other
    → links_below n late simplices ≡ links_below n other simplices
same_links n late other simplices h =
    filter-same (is_link late simplices) (is_link other simplices) (pairs n) (λ l c.
    let m = pair_members n l c in
    ap (λ (b : Bool). stand_together simplices l.low l.high && differ b (late l.high)) (h l.low (omega (arith, m.0, m.1)))
    ∙ ap (λ (b : Bool). stand_together simplices l.low l.high && differ (other l.low) b) (h l.high m.1))

same_label : (n : ℕ) (late other : ℕ → Bool) (w : List ℕ) → IsSimplex n w → Agree n late other → late_label late w ≡ late_label other w
same_label n late other w is h = by_corners (four_in_order w is.four is.distinct)
  where
    by_corners : FourInOrder w → late_label late w ≡ late_label other w
    by_corners f =
        let at = λ (k : ℕ) (i : In k (f.a ∷ f.b ∷ f.c ∷ f.d ∷ [])).
        h k (each-from_All (λ j. j < n) w is.below k (Contains_from w k (from_In-sorted k w (subst (λ (s : List ℕ). In k s) (sym f.is) i)))) in
        rw (f.is, at f.a (inl refl), at f.b (inr (inl refl)), at f.c (inr (inr (inl refl))), at f.d (inr (inr (inr (inl refl))))) refl

pub same_triangles : (n : ℕ) (late other : ℕ → Bool) (ls : List Link) (t : Table) (w : List ℕ) → IsSimplex n w → Agree n late other
    → triangles_in late ls t w ≡ triangles_in other ls t w
same_triangles n late other ls t w is h =
    ap (λ (label : ℕ). map (placed_tuple (is_odd_order w) (λ e. number_in ls (link_at w e))) (entry_of t label)) (same_label n late other w is h)
