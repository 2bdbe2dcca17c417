use Rattle.nrrd_raw.proofs.WordLaws.{same_word}
use Rattle.nrrd_raw.proofs.fields.words.is_word.Goals as goal

pub returns : goal.returns
returns c = same_word _ _ _ c.eq_ignore_ascii_case.ensures.test c.requires
