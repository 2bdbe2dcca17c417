-- The path rule, asked of each bipolar edge.
use Rattle.std.specs.Prelude.{◌≡◌, ◌<◌, ◌≤◌, ℕ, Bool, true, false, not, ◌||◌, List}
use Rattle.std.specs.List.{list_all}
use Rattle.std.proofs.Common.{refl, sym, ◌∙◌, arith, inl, inr}
use Rattle.std.proofs.lemmas.Bool.{cases_lt, false≢true}
use Rattle.iso_model.specs.declared.Kind.{Kind}
use Rattle.iso_model.specs.declared.Kind.TheVariants.{Cube, Simplex, Pyramid}
use Rattle.lists.specs.Orders.{numbers}
use Rattle.iso_model.specs.Cells.{edge_count}
use Rattle.iso_model.specs.Bipolar.{is_bipolar_in}
use Rattle.iso_model.specs.Acceptance.{is_path, rule_path}
use Rattle.edge_sets.specs.Sets.{Suits}
use Rattle.path_rule.proofs.SharedFaces.{all_In, all_from_In}
use Rattle.lists.specs.Bits.{is_set}
use Rattle.lists.proofs.Tests.{not_or, not_or_from}
use Rattle.lists.proofs.MemberLaws.{In-numbers, from_In-numbers}

few_edges : (kind : Kind) → edge_count kind 3 ≤ 32
few_edges Cube = omega arith
few_edges Simplex = omega arith
few_edges Pyramid = omega arith

abbrev test_of : Kind → ℕ → List (List ℕ) → ℕ → Bool
test_of kind label ws e = not (is_bipolar_in kind 3 label e) || is_path kind 3 e ws

pub path_passes : (kind : Kind) (label bipolar : ℕ) (ws : List (List ℕ)) → Suits kind 3 label bipolar ws
    → ((e : ℕ) → e < 32 → is_set bipolar e ≡ true → is_path kind 3 e ws ≡ true)
    → true ≡ rule_path kind 3 label ws
path_passes kind label bipolar ws suits path =
    sym (all_from_In (test_of kind label ws) (numbers (edge_count kind 3)) (λ e i.
    let inside = from_In-numbers (edge_count kind 3) e i in
    not_or_from (is_bipolar_in kind 3 label e) (is_path kind 3 e ws) (λ h. path e (omega (arith, inside, few_edges kind)) (suits.bipolar_is e inside ∙ h))))

pub path_fails : (kind : Kind) (label bipolar e : ℕ) (ws : List (List ℕ)) → Suits kind 3 label bipolar ws → is_set bipolar e ≡ true
    → false ≡ is_path kind 3 e ws → false ≡ rule_path kind 3 label ws
path_fails kind label bipolar e ws suits member fails = by (list_all (test_of kind label ws) (numbers (edge_count kind 3))) refl
  where
    inside : e < edge_count kind 3
    inside = elim (cases_lt e (edge_count kind 3)) as (λ _. e < edge_count kind 3) [
      | inl below ↦ below
      | inr outside ↦ absurd (false≢true (sym (suits.others e outside) ∙ member))
    ]

    by : (b : Bool) → list_all (test_of kind label ws) (numbers (edge_count kind 3)) ≡ b → false ≡ b
    by false h = refl
    by true h =
        let here = all_In (test_of kind label ws) (numbers (edge_count kind 3)) e h (In-numbers (edge_count kind 3) e inside) in
        absurd (false≢true (fails ∙ not_or (is_bipolar_in kind 3 label e) (is_path kind 3 e ws) here (sym (suits.bipolar_is e inside) ∙ member)))
