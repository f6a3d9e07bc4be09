use Rattle.std.proofs.Common.{sym, subst}
use Rattle.std.specs.Str.{IsUtf8}
use Rattle.fac_spelling.proofs.TextLaws.{whole_text}
use Rattle.fac_spelling.proofs.Utf8Laws.{read_utf8}
use Rattle.fac_spelling.proofs.characters.read_one_by_one.Goals as goal

pub split_at-requires : goal.split_at-requires
split_at-requires c = (whole_text c.args.size c.args.bytes.now c.in_ok-past_characters.field-0.now c.in_ok-past_characters.ensures.exact).0

pub from_utf8_unchecked-requires : goal.from_utf8_unchecked-requires
from_utf8_unchecked-requires c =
    let w = (whole_text c.args.size c.args.bytes.now c.in_ok-past_characters.field-0.now c.in_ok-past_characters.ensures.exact).1 in
    subst IsUtf8 (sym c.split_at.ensures.front) (read_utf8 c.args.size c.args.bytes.now _ _ w)

pub returns-clause-exact : goal.returns-clause-exact
returns-clause-exact c =
    let w = (whole_text c.args.size c.args.bytes.now c.in_ok-past_characters.field-0.now c.in_ok-past_characters.ensures.exact).1 in
    rw (c.from_utf8_unchecked.ensures, c.split_at.ensures.front, c.split_at.ensures.back) w
