-- The pulled simplices are the same for two predicates that have the same facets.
use Rattle.std.specs.Prelude.{◌↔◌, ℕ, List}
use Rattle.iso_model.specs.Hulls.{IsProperMeet, IsFaceOf, IsChain, IsPulled}

proper_same : (F G : List ℕ → Type 0) → ((s : List ℕ) → F s ↔ G s) → (set face : List ℕ) → IsProperMeet F set face → IsProperMeet G set face
proper_same F G same set face p = (p.0, (same p.0).0 p.1, p.2, p.3)

face_same : (F G : List ℕ → Type 0) → ((s : List ℕ) → F s ↔ G s) → (set face : List ℕ) → IsFaceOf F set face → IsFaceOf G set face
face_same F G same set face f = record {
  proper = proper_same F G same set face f.proper;
  maximal = λ other p w. f.maximal other (proper_same G F (λ s. ((same s).1, (same s).0)) set other p) w;
}

chain_same : (F G : List ℕ → Type 0) → ((s : List ℕ) → F s ↔ G s) → (d : ℕ) (facet : List ℕ) (chain : List (List ℕ)) → IsChain F d facet chain
    → IsChain G d facet chain
chain_same F G same d facet chain c = record {
  sets = c.sets;
  top = c.top;
  point = c.point;
  down = λ k e h. (face_same F G same _ _ (c.down k e h).0, (c.down k e h).1);
}

pub pulled_too : (F G : List ℕ → Type 0) → ((s : List ℕ) → F s ↔ G s) → (d : ℕ) (facet simplex : List ℕ) → IsPulled F d facet simplex
    → IsPulled G d facet simplex
pulled_too F G same d facet simplex p = (p.0, chain_same F G same d facet p.0 p.1, p.2)
