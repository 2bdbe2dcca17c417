use Rattle.iso_cli.proofs.OneRefusal.{lack_where_refused, one_answer}
use Rattle.iso_cli.proofs.laws.one_answer_law.Goals as goal

pub returns-clause-one : goal.returns-clause-one
returns-clause-one c = λ files words.
    one_answer files words

pub returns-clause-lack : goal.returns-clause-lack
returns-clause-lack c = λ files words.
    lack_where_refused files words
