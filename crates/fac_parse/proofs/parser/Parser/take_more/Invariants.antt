use Rattle.std.proofs.Common.{◌≡◌, ◌≤◌, List, length}
use Rattle.fac_source.specs.declared.token.Token.{Token}
use Rattle.fac_source.specs.declared.tree.Form.{Form}
use Rattle.fac_parse.specs.Handed.{IsTaking}
use Rattle.fac_parse.proofs.parser.Parser.take_more.Given as goal

abbrev pub decreases-taking : goal.decreases-taking
decreases-taking l = length l.self.rest

abbrev pub invariant-taking : goal.invariant-taking
invariant-taking l = record {
  takes : (tokens : List Token) (before : List Form) → IsTaking tokens before l.initial.self → IsTaking tokens before l.self;
  fewer : length l.self.rest ≤ length l.initial.self.rest;
  going : l.self.is_whole ≡ l.initial.self.is_whole;
}
