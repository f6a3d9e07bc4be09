use Rattle.std.proofs.Common.{ap}
use Rattle.fac_lang.specs.Phrases.{Phrase}
use Rattle.fac_lang.specs.declared.program.Sort.TheVariants.{Body as body, Past as past, Method as method}
use Rattle.fac_locals.proofs.closing.close_sort.Goals as goal

pub returns-in_ok-body-in-Body : goal.returns-in_ok-body-in-Body
returns-in_ok-body-in-Body c = rw c.in-Body.is (ap (λ (t : Phrase). body t) c.in_ok-body-in-Body.ensures.0, c.in_ok-body-in-Body.ensures.1)

pub returns-in_ok-body-in-Past : goal.returns-in_ok-body-in-Past
returns-in_ok-body-in-Past c = rw c.in-Past.is (ap (λ (t : Phrase). past t) c.in_ok-body-in-Past.ensures.0, c.in_ok-body-in-Past.ensures.1)

pub returns-in_ok-body-in-Method : goal.returns-in_ok-body-in-Method
returns-in_ok-body-in-Method c = rw c.in-Method.is (ap (λ (t : Phrase). method c.in-Method.class c.in-Method.generic t) c.in_ok-body-in-Method.ensures.0, c.in_ok-body-in-Method.ensures.1)
