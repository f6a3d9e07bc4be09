use Rattle.std.proofs.Common.{List, ℕ, map, ap, sym, ◌∙◌, string_bytes}
use Rattle.std.specs.List.{position_or_len}
use Rattle.std.specs.Str.{bytes_eq}
use Rattle.fac_emit.proofs.KeyLemmas.{position_map, place_found, no_place}
use Rattle.fac_emit.proofs.texts.Texts.number.Goals as goal

pub returns-in-Some : goal.returns-in-Some
returns-in-Some c =
    let keys = c.self.inside.kept.keys in
    place_found (λ k. bytes_eq c.as_str.result.now (string_bytes k)) keys c.in-Some.number c.in-Some.ensures.index ∙ sym (position_map string_bytes (bytes_eq c.as_str.result.now) keys) ∙ ap (λ (t : List ℕ). position_or_len (bytes_eq t) (map string_bytes keys)) c.as_str.ensures ∙ ap (position_or_len (bytes_eq c.args.text.now)) c.self.view_is

pub returns-in-None : goal.returns-in-None
returns-in-None c =
    let keys = c.self.inside.kept.keys in
    c.len.ensures.len ∙ no_place (λ k. bytes_eq c.as_str.result.now (string_bytes k)) keys c.in-None.ensures.index ∙ sym (position_map string_bytes (bytes_eq c.as_str.result.now) keys) ∙ ap (λ (t : List ℕ). position_or_len (bytes_eq t) (map string_bytes keys)) c.as_str.ensures ∙ ap (position_or_len (bytes_eq c.args.text.now)) c.self.view_is
