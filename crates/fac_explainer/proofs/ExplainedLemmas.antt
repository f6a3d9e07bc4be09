-- What is told of a refusal: it is never empty, and there is one.
use Rattle.std.proofs.Common.{◌≡◌, ◌<◌, ℕ, ◌+◌, List, [], ◌∷◌, ◌++◌, Bool, true, false, None, Some, Result, Ok, Err, length, map, inl, inr, refl, sym, ap, subst, ◌∙◌, arith, length-append}
use Rattle.std.specs.Prelude.{codes, nat_le}
use Rattle.std.specs.declared.option.Option.{Option}
use Rattle.fac_source.specs.declared.token.Token.{Token}
use Rattle.fac_token.specs.declared.fault.TokenFault.{TokenFault}
use Rattle.fac_token.specs.declared.spotting.Spot.{Spot}
use Rattle.fac_token.specs.Spots.{HasSpots, OneListOfSpots}
use Rattle.fac_token.specs.Tokens.{HasTokens, Tokenizes, numbered, kinds}
use Rattle.fac_token.specs.ReadingLaws.{OneAnswer, IsNotMemory}
use Rattle.fac_source.specs.declared.refusal.NameKind.{NameKind}
use Rattle.fac_source.specs.declared.refusal.NameKind.TheVariants as kind
use Rattle.fac_notes.specs.declared.report.Report.{Report}
use Rattle.fac_notes.specs.declared.report.Report.TheVariants as report
use Rattle.fac_notes.specs.Notes.{line_of, file_name}
use Rattle.fac_notes.specs.Sources.{Source}
use Rattle.fac_prelude.specs.PreludeText.{prelude_text}
use Rattle.fac_tool.specs.Answers.{numbered_names}
use Rattle.fac_tool.specs.Sources.{OneSource}
use Rattle.fac_tool.specs.SeenObjects.{SinkSeen}
use Rattle.fac_tool.specs.declared.ended.Ended.{Ended}
use Rattle.fac_explain.specs.Places.{AreSpots, read, faulty, IsTokenPlace, spot_numbered, refused_token}
use Rattle.fac_explain.specs.Pictures.{place_text, token_text}
use Rattle.fac_explain.specs.Sentences.{meant}
use Rattle.fac_explain.specs.Names.{AreDefined, none as no_text, more as one_text, language_names, names_behind}
use Rattle.fac_explain.specs.Nearness.{closest}
use Rattle.fac_explain.specs.Beginnings.{beginning}
use Rattle.fac_explainer.specs.Reports.{IsPlace, text_in, file_of, picture, sentence}
use Rattle.fac_explainer.specs.Homes.{AreHomes, none, holds, lacks, HomesWhere, HasHomes, bringing, vocabularies}
use Rattle.fac_explainer.specs.Help.{Means, HelpsBy, HelpsFind, HelpsName, IsHelp}
use Rattle.fac_explainer.specs.Explanations.{IsTold, IsExplanation, OneExplanation, explanation, nothing}
use Rattle.fac_explainer.specs.CheckAnswers.{OneRefusal, IsCheckedAs, check_answer}
use Rattle.fac_explainer.specs.Explains.{ExplainsTexts}
use Rattle.fac_explainer.specs.inner.GivenTexts.{numbered_texts}
use Rattle.fac_explainer.specs.inner.Steps.{Explained, Writes}
use Rattle.fac_explainer.proofs.GivenLemmas.{texts_again}

-- its last byte is a line break
last_byte : (a b c : List ℕ) → 0 < length (a ++ (b ++ c ++ codes "\n"))
last_byte a b c =
    let whole = length-append a (b ++ c ++ codes "\n") in
    let end = length-append (b ++ c) (codes "\n") in
    omega (arith, whole, end)

pub some_bytes : (names texts : List (List ℕ)) (refusal : Option Report) (out : List ℕ) → IsTold names texts refusal out → 0 < length out
some_bytes names texts None out is = subst (λ (xs : List ℕ). 0 < length xs) (sym is) (omega arith)
some_bytes names texts (Some why) out is =
    let place = is.0 in
    let all = numbered_names names in
    let text = text_in texts (file_of why) in
    subst (λ (xs : List ℕ). 0 < length xs) (sym is.2.2) (last_byte (place_text (file_name all (file_of why)) place ++ line_of all why) (picture why text place) (sentence why (token_text text place) ++ (is.2.0 ++ beginning text)))

-- what is told of texts that were numbered
pub explained_again :
    (names texts : List (List ℕ)) (given : List (List ℕ × List ℕ)) (refusal : Option Report) (text : List ℕ) → given ≡ numbered_texts 1 texts → IsCheckedAs (map (λ pair. pair.1) given) refusal → IsTold names (map (λ pair. pair.1) given) refusal text →
    Explained names texts refusal text
explained_again names texts given refusal text e checked is = subst (λ (ts : List (List ℕ)). Explained names ts refusal text) (texts_again given texts e) (record { checked = checked; is = is })

-- it was written, whole or a front of it
pub explains : (names texts : List (List ℕ)) (refusal : Option Report) (text : List ℕ) (out : SinkSeen) (ended : Ended) → Explained names texts refusal text → Writes text refusal out ended → ExplainsTexts names texts out ended
explains names texts refusal text out ended is (inl whole) = inl (record { refusal = refusal; checked = is.checked; ends = inl (record { text = text; is = is.is; written = whole.written; count = whole.count; ends = whole.ends }) })
explains names texts refusal text out ended is (inr part) = inl (record { refusal = refusal; checked = is.checked; ends = inr (record { text = text; is = is.is; front = part.front; rose = part.rose; ends = part.ends }) })

-- a file with tokens has no fault
no_fault : OneAnswer → (text : List ℕ) (spots : List Spot) (fault : TokenFault) → HasSpots text spots → IsNotMemory (Err fault) → Tokenizes 0 text (Err fault) → ⊥
no_fault one text spots fault has known refused =
    let tokens = numbered 0 1 (kinds has.ps) in
    let reads : HasTokens 0 text tokens = record { chars = has.chars; ps = has.ps; spells = has.spells; reading = has.reading; are = refl } in
    let same : Ok tokens ≡ Err fault = one 0 text (Ok tokens) (Err fault) tt known reads refused in
    absurd (cc)

one_spots : OneAnswer → OneListOfSpots → (text : List ℕ) (spots others : List Spot) → AreSpots text spots → AreSpots text others → spots ≡ others
one_spots one list text spots others (read _ has) (read _ other) = list text spots others has other
one_spots one list text spots others (read _ has) (faulty fault known refused) = absurd (no_fault one text spots fault has known refused)
one_spots one list text spots others (faulty fault known refused) (read _ has) = absurd (no_fault one text others fault has known refused)
one_spots one list text spots others (faulty fault known refused) (faulty other same again) = refl

one_token : OneAnswer → OneListOfSpots → (text : List ℕ) (number : ℕ) (place other : Option Spot) → IsTokenPlace text number place → IsTokenPlace text number other → place ≡ other
one_token one list text number place other is has =
    let same = one_spots one list text is.0 has.0 is.1 has.1 in
    is.2 ∙ ap (λ (spots : List Spot). spot_numbered spots number) same ∙ sym has.2

one_place : OneAnswer → OneListOfSpots → (text : List ℕ) (why : Report) (place other : Option Spot) → IsPlace text why place → IsPlace text why other → place ≡ other
one_place one list text (report.Bytes file at reason) place other is has = is ∙ sym has
one_place one list text (report.Syntax file at reason) place other is has = one_token one list text (refused_token at reason) place other is has
one_place one list text (report.Name fault) place other is has = one_token one list text fault.place.token place other is has
one_place one list text (report.Check refusal word) place other is has = one_token one list text refusal.broken.place.token place other is has
one_place one list text (report.Error name word value) place other is has = is ∙ sym has
one_place one list text (report.Spent ticks) place other is has = is ∙ sym has
one_place one list text (report.Image at) place other is has = is ∙ sym has
one_place one list text (report.Trap pc reason) place other is has = is ∙ sym has
one_place one list text (report.File name) place other is has = is ∙ sym has
one_place one list text (report.TooLong name most) place other is has = is ∙ sym has

-- texts aren't both accepted and refused
not_both : OneRefusal → (texts : List (List ℕ)) (why : Report) → IsCheckedAs texts None → IsCheckedAs texts (Some why) → ⊥
not_both one texts why is has = let same : None ≡ Some why = one texts None (Some why) is has in absurd (cc)

one_homes : OneRefusal → (name : List ℕ) (vocabs homes others : List (List ℕ)) → AreHomes name vocabs homes → AreHomes name vocabs others → homes ≡ others
one_homes one name _ _ _ none none = refl
one_homes one name _ _ _ (holds vocab vocabs homes is more) (holds _ _ others has rest) = ap (λ (xs : List (List ℕ)). vocab ∷ xs) (one_homes one name vocabs homes others more rest)
one_homes one name _ _ _ (holds vocab vocabs homes is more) (lacks _ _ others why has rest) = absurd (not_both one (bringing vocab name ∷ []) why is has)
one_homes one name _ _ _ (lacks vocab vocabs homes why is more) (holds _ _ others has rest) = absurd (not_both one (bringing vocab name ∷ []) why has is)
one_homes one name _ _ _ (lacks vocab vocabs homes why is more) (lacks _ _ others other has rest) = one_homes one name vocabs homes others more rest

one_has_homes : OneRefusal → (name : List ℕ) (homes others : List (List ℕ)) → HasHomes name homes → HasHomes name others → homes ≡ others
one_has_homes one name homes others is has = by_case (nat_le (length name) 256) is has
  where
    by_case : (b : Bool) → HomesWhere b name homes → HomesWhere b name others → homes ≡ others
    by_case true is has = one_homes one name vocabularies homes others is has
    by_case false is has = is ∙ sym has

one_defined : OneAnswer → OneListOfSpots → (texts names others : List (List ℕ)) → AreDefined texts names → AreDefined texts others → names ≡ others
one_defined one list _ _ _ no_text no_text = refl
one_defined one list _ _ _ (one_text text texts names spots are rest) (one_text _ _ others spaces have left) =
    let same = one_spots one list text spots spaces are have in
    let alike = one_defined one list texts names others rest left in
    ap (λ (places : List Spot). names_behind text false places ++ names) same ∙ ap (λ (ns : List (List ℕ)). names_behind text false spaces ++ ns) alike

one_meant : OneAnswer → OneListOfSpots → (texts : List (List ℕ)) (name out other : List ℕ) → Means texts name out → Means texts name other → out ≡ other
one_meant one list texts name out other is has =
    let same = one_defined one list (prelude_text ∷ texts) is.1.0 has.1.0 is.1.1 has.1.1 in
    let names = is.1.2 ∙ ap (λ (ns : List (List ℕ)). language_names ++ ns) same ∙ sym has.1.2 in
    is.2 ∙ ap (λ (ns : List (List ℕ)). meant name (closest name ns)) names ∙ sym has.2

one_helping : OneAnswer → OneListOfSpots → (texts : List (List ℕ)) (name : List ℕ) (homes : List (List ℕ)) (out other : List ℕ) → HelpsBy texts name homes out → HelpsBy texts name homes other → out ≡ other
one_helping one list texts name [] out other is has = one_meant one list texts name out other is has
one_helping one list texts name (vocab ∷ vocabs) out other is has = is ∙ sym has

one_finding : OneAnswer → OneListOfSpots → OneRefusal → (texts : List (List ℕ)) (name out other : List ℕ) → HelpsFind texts name out → HelpsFind texts name other → out ≡ other
one_finding one list single texts name out other is has =
    let same = one_has_homes single name is.0 has.0 is.1 has.1 in
    one_helping one list texts name has.0 out other (subst (λ (homes : List (List ℕ)). HelpsBy texts name homes out) same is.2) has.2

one_of_kind : OneAnswer → OneListOfSpots → OneRefusal → (texts : List (List ℕ)) (kind : NameKind) (name out other : List ℕ) → HelpsName texts kind name out → HelpsName texts kind name other → out ≡ other
one_of_kind one list single texts kind.Unknown name out other is has = one_finding one list single texts name out other is has
one_of_kind one list single texts (kind.Ambiguous first second) name out other is has = is ∙ sym has
one_of_kind one list single texts kind.Twice name out other is has = is ∙ sym has
one_of_kind one list single texts kind.NoVocab name out other is has = is ∙ sym has
one_of_kind one list single texts kind.NotClass name out other is has = is ∙ sym has
one_of_kind one list single texts kind.NotGeneric name out other is has = is ∙ sym has
one_of_kind one list single texts kind.BadParent name out other is has = is ∙ sym has
one_of_kind one list single texts kind.Cycle name out other is has = is ∙ sym has
one_of_kind one list single texts kind.TooMany name out other is has = is ∙ sym has
one_of_kind one list single texts kind.Undefined name out other is has = is ∙ sym has

one_help : OneAnswer → OneListOfSpots → OneRefusal → (texts : List (List ℕ)) (why : Report) (out other : List ℕ) → IsHelp texts why out → IsHelp texts why other → out ≡ other
one_help one list single texts (report.Name fault) out other is has = one_of_kind one list single texts fault.kind fault.name out other is has
one_help one list single texts (report.Bytes file at reason) out other is has = is ∙ sym has
one_help one list single texts (report.Syntax file at reason) out other is has = is ∙ sym has
one_help one list single texts (report.Check refusal word) out other is has = is ∙ sym has
one_help one list single texts (report.Error name word value) out other is has = is ∙ sym has
one_help one list single texts (report.Spent ticks) out other is has = is ∙ sym has
one_help one list single texts (report.Image at) out other is has = is ∙ sym has
one_help one list single texts (report.Trap pc reason) out other is has = is ∙ sym has
one_help one list single texts (report.File name) out other is has = is ∙ sym has
one_help one list single texts (report.TooLong name most) out other is has = is ∙ sym has

pub one_told : OneAnswer → OneListOfSpots → OneRefusal → OneExplanation
one_told one list single names texts None out other is has = is ∙ sym has
one_told one list single names texts (Some why) out other is has =
    let all = numbered_names names in
    let text = text_in texts (file_of why) in
    let same = one_place one list text why is.0 has.0 is.1 has.1 in
    let alike = one_help one list single texts why is.2.0 has.2.0 is.2.1 has.2.1 in
    is.2.2 ∙ ap (λ (place : Option Spot). explanation all text why place is.2.0) same ∙ ap (λ (help : List ℕ). explanation all text why has.0 help) alike ∙ sym has.2.2

pub one_refused : OneSource → OneRefusal
one_refused one texts refusal other is has =
    let same = one 0 (prelude_text ∷ texts) is.sources has.sources is.are_read has.are_read in
    is.is ∙ ap (λ (sources : List Source). (check_answer sources).refusal) same ∙ sym has.is
