use Rattle.fac_rows.proofs.TakingLemmas.{par_is, any_is, lit_is, cur_is, com_is, wrd_is}
use Rattle.fac_rows.proofs.calls.is_input.Goals as goal

pub returns-in-Par : goal.returns-in-Par
returns-in-Par c = λ N. par_is _ c.in-Par.input c.args.number (c.in-Par.ensures N)

pub returns-in-Any : goal.returns-in-Any
returns-in-Any c = λ N. any_is _ c.args.number (c.in-Any.ensures N)

pub returns-in-Lit : goal.returns-in-Lit
returns-in-Lit c = λ N. lit_is _ c.args.number _ _ (c.in-Lit.ensures.is N)

pub returns-in-Cur : goal.returns-in-Cur
returns-in-Cur c = λ N. cur_is _ _ _ c.args.number (c.in-Cur.ensures.is N)

pub returns-in-Com : goal.returns-in-Com
returns-in-Com c = λ N. com_is _ _ _ c.args.number (c.in-Com.ensures.is N)

pub returns-in-Wrd : goal.returns-in-Wrd
returns-in-Wrd c = λ N. wrd_is _ c.args.number _ (c.in-Wrd.ensures N)
