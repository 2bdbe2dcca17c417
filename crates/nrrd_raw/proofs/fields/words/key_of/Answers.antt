use Rattle.std.proofs.Common.{ℕ, List, sym, ap, ◌∙◌}
use Rattle.std.specs.List.{list_any}
use Rattle.lists.specs.Orders.{same_list}
use Rattle.iso_formats.specs.HeaderLines.{skip_names, data_file_names}
use Rattle.nrrd_raw.proofs.WordLaws.{lower-lower}
use Rattle.nrrd_raw.proofs.fields.words.key_of.Goals as goal

pub returns-in-None : goal.returns-in-None
returns-in-None c =
    let lower = lower-lower c.args.name.now in (
      ap (λ (w : List ℕ). list_any (same_list w) skip_names) lower ∙ sym c.names_skip.ensures ∙ c.if-names_skip.false,
      ap (λ (w : List ℕ). list_any (same_list w) data_file_names) lower ∙ sym c.names_data_file.ensures ∙ c.if-names_data_file.false,
      c.in-None.ensures.none,
    )
