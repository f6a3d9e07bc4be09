use Rattle.std.proofs.Common.{Err, subst}
use Rattle.fac_prelude.specs.PreludeText.{prelude_text}
use Rattle.fac_judge.specs.declared.reading.Unread.{Unread}
use Rattle.fac_judge.specs.inner.ReadTexts.{ReadsText}
use Rattle.fac_judge.proofs.KnownLemmas.{tokens_refused, tree_refused}
use Rattle.fac_judge.proofs.known_texts.no_first.Goals as goal

pub returns-in-NoTokens : goal.returns-in-NoTokens
returns-in-NoTokens c = λ read. tokens_refused c.in-NoTokens.at c.in-NoTokens.why (subst (λ (fault : Unread). ReadsText 0 prelude_text (Err fault)) c.in-NoTokens.is read)

pub returns-in-NoTree : goal.returns-in-NoTree
returns-in-NoTree c = λ read. tree_refused c.in-NoTree.at c.in-NoTree.why (subst (λ (fault : Unread). ReadsText 0 prelude_text (Err fault)) c.in-NoTree.is read)
