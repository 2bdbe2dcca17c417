-- The tetrahedra of a mesh with the entries of a table that is accepted for corners in order are lawful pieces.
use Rattle.std.proofs.Common.{◌≡◌, ℕ, ◌<◌, Bool, true, List, length, sym, ◌∙◌}
use Rattle.lists.specs.Members.{In}
use Rattle.lists.proofs.DistinctLists.{Distinct-range}
use Rattle.lists.proofs.MemberLaws.{In_place, from_In-numbers, In-numbers, Each-In, Each-from_In}
use Rattle.lists.specs.Orders.{sorted}
use Rattle.iso_model.specs.declared.Kind.TheVariants.{Simplex}
use Rattle.iso_model.specs.Bipolar.{is_bipolar_in}
use Rattle.iso_model.specs.Tables.{Table}
use Rattle.glue_laws.proofs.Pieces.{IsTuple, Laws}
use Rattle.cut_laws.specs.Cuts.{AreDifferent, AreGlued}
use Rattle.cut_laws.specs.CutSteps.{IsSimplex}
use Rattle.cut_laws.proofs.NamedTriangles.{parted_is_bipolar}
use Rattle.cut_faces.proofs.MeshSides.{simplex_at, from_across, across_back}
use Rattle.cut_faces.proofs.CutLinks.{is_linked, from_linked, to_linked, back}
use Rattle.cut_faces.proofs.CutPieces.{cut_pieces, label_at}
use Rattle.cut_faces.proofs.CutEntries.{ServesInOrder, label_few, laws_at}
use Rattle.cut_faces.proofs.CutSeams.{seam_keeps, seam_order, matches}
use Rattle.cut_faces.proofs.CutShares.{shares}

-- what is asked of the tetrahedra: four different numbers below n each, no four of them twice, and each face with count 1, or with count 2 and sum 0
pub record IsGluedMesh (n : ℕ) (S : List (List ℕ)) : Type 0 where
  pub simplices : (w : List ℕ) → In w S → IsSimplex n w
  pub different : AreDifferent S
  pub glued : AreGlued S

module _ (n : ℕ) (late : ℕ → Bool) (S : List (List ℕ)) (t : Table) (mesh : IsGluedMesh n S) (serves : ServesInOrder t) where
  cell : (c : ℕ) → In c (cut_pieces n late S t).cells → c < length S
  cell c i = from_In-numbers (length S) c i

  -- a local edge has a link exactly where it is bipolar in the label
  bipolar_from : (c e : ℕ) → is_linked late (simplex_at S c) e ≡ true → is_bipolar_in Simplex 3 (label_at late S c) e ≡ true
  bipolar_from c e h = let both = from_linked late (simplex_at S c) e h in parted_is_bipolar late (sorted (simplex_at S c)) e both.0 ∙ both.1

  linked_from : (c e : ℕ) → e < 6 → is_bipolar_in Simplex 3 (label_at late S c) e ≡ true → is_linked late (simplex_at S c) e ≡ true
  linked_from c e h b = to_linked late (simplex_at S c) e h (sym (parted_is_bipolar late (sorted (simplex_at S c)) e h) ∙ b)

  cell_tuple : (c : ℕ) (t' : List ℕ) → In c (cut_pieces n late S t).cells → In t' ((cut_pieces n late S t).entry c) → IsTuple (cut_pieces n late S t) c t'
  cell_tuple c v i j =
      let sound = (laws_at t serves (label_at late S c) (label_few late (simplex_at S c))).tuples v j in
      record {
        distinct = sound.distinct;
        long = sound.long;
        bipolar = Each-from_In (λ e. is_linked late (simplex_at S c) e ≡ true) v (λ e k.
            let at = Each-In (λ x. (x < 6) × (is_bipolar_in Simplex 3 (label_at late S c) x ≡ true)) v sound.edges e k in
            linked_from c e at.0 at.1);
      }

  -- the pieces are lawful
  pub laws_of : Laws (cut_pieces n late S t)
  laws_of = record {
    cells_distinct = Distinct-range 0 (length S);
    back = λ c e i h. back n late S mesh.simplices (simplex_at S c) e (In_place S c (cell c i)) h;
    tuples = cell_tuple;
    inside = λ c v part i. (laws_at t serves (label_at late S c) (label_few late (simplex_at S c))).inside v part;
    once = λ c v part f i. (laws_at t serves (label_at late S c) (label_few late (simplex_at S c))).once v part f;
    one_facet = λ c v part f g i. (laws_at t serves (label_at late S c) (label_few late (simplex_at S c))).one_facet v part f g;
    not_flat = λ c v f i. (laws_at t serves (label_at late S c) (label_few late (simplex_at S c))).not_flat v f;
    covers = λ c e i h.
        (laws_at t serves (label_at late S c) (label_few late (simplex_at S c))).covers e (from_linked late (simplex_at S c) e h).0 (bipolar_from c e h);
    leads_back = λ c f d g i hf e.
        let a = from_across S c f d g e in
        (In-numbers (length S) d a.is_simplex, a.apart, a.is_side, across_back S n mesh.simplices mesh.glued c f d g (cell c i) hf e);
    seam_keeps = λ c f d g e i. seam_keeps n late S mesh.simplices mesh.glued c f d g e (cell c i);
    seam_order = λ c f d g a b i. seam_order n late S mesh.simplices mesh.glued c f d g a b (cell c i);
    matches = λ c f d g m face i hf e ascends linked lies.
        matches n late S mesh.simplices mesh.glued t serves c f d g m face (cell c i) hf e ascends linked lies;
    shares = λ c d es i j apart linked has.
        shares n late S mesh.simplices mesh.glued mesh.different c d es (cell c i) (cell d j) apart linked has;
  }
