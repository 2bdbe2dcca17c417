use Rattle.std.proofs.Common.{ℕ, refl, subst, inl, inr}
use Rattle.iso_model.specs.declared.Kind.TheVariants.{Pyramid}
use Rattle.iso_model.specs.Neighbours.{IsAcross}
use Rattle.split_laws.proofs.SplitTheorems.{found_across}
use Rattle.grid_split.proofs.Tables.{pyramid_shift, pyramid_next}
use Rattle.grid_split.proofs.pyramids.PyramidCellSplit3.across.Goals as goal

pub returns : goal.returns
returns c =
    record {
      shift = pyramid_shift c.args.rank c.args.facet c.requires.rank c.requires.facet;
      across =
          subst (λ (n : ℕ × ℕ). IsAcross Pyramid 3 c.args.rank c.args.facet n.0 n.1)
          (pyramid_next c.args.rank c.args.facet c.requires.rank c.requires.facet)
          (found_across Pyramid 3 (inr (inl refl)) refl c.args.rank c.args.facet c.requires.rank c.requires.facet);
    }
