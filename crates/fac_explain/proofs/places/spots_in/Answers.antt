use Rattle.std.proofs.Common.{List, Err, sym, subst}
use Rattle.fac_token.specs.declared.fault.TokenFault.{TokenFault}
use Rattle.fac_token.specs.declared.spotting.Spot.{Spot}
use Rattle.fac_token.specs.ReadingLaws.{IsNotMemory}
use Rattle.fac_explain.specs.Places.{AreSpots, read, faulty}
use Rattle.fac_explain.proofs.places.spots_in.Goals as goal

pub returns-in-Ok : goal.returns-in-Ok
returns-in-Ok c = read c.in-Ok.found c.in-Ok.ensures

pub returns-in-Err-NotUtf8 : goal.returns-in-Err-NotUtf8
returns-in-Err-NotUtf8 c =
    let known : IsNotMemory (Err c.in-Err-NotUtf8.field-0) = subst (λ (fault : TokenFault). IsNotMemory (Err fault)) (sym c.in-Err-NotUtf8.field-0-is) tt in
    subst (λ (spots : List Spot). AreSpots c.args.text.now spots) (sym c.new.ensures) (faulty c.in-Err-NotUtf8.field-0 known c.in-Err-NotUtf8.ensures)

pub returns-in-Err-OpenString : goal.returns-in-Err-OpenString
returns-in-Err-OpenString c =
    let known : IsNotMemory (Err c.in-Err-OpenString.field-0) = subst (λ (fault : TokenFault). IsNotMemory (Err fault)) (sym c.in-Err-OpenString.field-0-is) tt in
    subst (λ (spots : List Spot). AreSpots c.args.text.now spots) (sym c.new-in-Err-OpenString.ensures) (faulty c.in-Err-OpenString.field-0 known c.in-Err-OpenString.ensures)

pub returns-in-Err-BadEscape : goal.returns-in-Err-BadEscape
returns-in-Err-BadEscape c =
    let known : IsNotMemory (Err c.in-Err-BadEscape.field-0) = subst (λ (fault : TokenFault). IsNotMemory (Err fault)) (sym c.in-Err-BadEscape.field-0-is) tt in
    subst (λ (spots : List Spot). AreSpots c.args.text.now spots) (sym c.new-in-Err-BadEscape.ensures) (faulty c.in-Err-BadEscape.field-0 known c.in-Err-BadEscape.ensures)

pub returns-in-Err-StuckQuote : goal.returns-in-Err-StuckQuote
returns-in-Err-StuckQuote c =
    let known : IsNotMemory (Err c.in-Err-StuckQuote.field-0) = subst (λ (fault : TokenFault). IsNotMemory (Err fault)) (sym c.in-Err-StuckQuote.field-0-is) tt in
    subst (λ (spots : List Spot). AreSpots c.args.text.now spots) (sym c.new-in-Err-StuckQuote.ensures) (faulty c.in-Err-StuckQuote.field-0 known c.in-Err-StuckQuote.ensures)
