use Rattle.fac_judge.proofs.MeaningLemmas.{refused_text}
use Rattle.fac_judge.proofs.meaning.meaning_of_program.Goals as goal

pub returns-in-Refused : goal.returns-in-Refused
returns-in-Refused g c = λ known next text goes same. refused_text known next c.args.count text c.args.program c.in-Refused.why goes same c.in-Refused.ensures
