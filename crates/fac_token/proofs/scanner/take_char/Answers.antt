use Rattle.std.proofs.Common.{◌≡◌, ◌==◌, true, false, arith}
use Rattle.std.proofs.lemmas.Grind.{common_steps}
use Rattle.fac_token.specs.Lexemes.{is_white}
use Rattle.fac_token.proofs.StepLemmas.{char_holds}
use Rattle.fac_token.proofs.scanner.take_char.Goals as goal

pub returns-then-c-eq34 : goal.returns-then-c-eq34
returns-then-c-eq34 c =
    let w : is_white c.args.c ≡ false = cc in
    let q : (c.args.c == 34) ≡ true = grind (arith, common_steps) in
    char_holds false true c.args.file c.args.at _ c.args.c c.args.tokens.now _ _ w q (c.take_quote.ensures c.args.tokens.now)

pub returns : goal.returns
returns c =
    let w : is_white c.args.c ≡ false = cc in
    let q : (c.args.c == 34) ≡ false = grind (arith, common_steps) in
    char_holds false false c.args.file c.args.at _ c.args.c c.args.tokens.now _ _ w q (c.take_inner.ensures c.args.tokens.now)
