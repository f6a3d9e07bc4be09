use Rattle.std.proofs.Common.{Err, subst}
use Rattle.fac_judge.specs.declared.known_texts.NoNext.{NoNext}
use Rattle.fac_judge.specs.inner.NamedTexts.{NamesText}
use Rattle.fac_judge.proofs.meaning.no_meaning.Goals as goal

pub returns-in-Waits : goal.returns-in-Waits
returns-in-Waits c = λ known count text named. subst (λ (fault : NoNext). NamesText known text (Err fault)) c.in-Waits.is named count

pub returns-in-Refused : goal.returns-in-Refused
returns-in-Refused c = λ known count text named. subst (λ (fault : NoNext). NamesText known text (Err fault)) c.in-Refused.is named count
