-- The laws of the example.
use Rattle.std.proofs.Common.{refl, ap, ◌∙◌, arith}
use Rattle.std.proofs.lemmas.List.{length-set, set_comm}
use Rattle.round_program.specs.Talks.{TalkLaws}
use Rattle.drive_tests.specs.Adders.{adder_talk}

pub adder_laws : TalkLaws adder_talk
adder_laws = record {
  asks = λ s v. v.asks;
  answers = λ s from question v low word. omega arith;
  keeps = λ s i reply v low word. record {
    valid = record { asks = v.asks; places = length-set s.heard i reply ∙ v.places };
    rank = refl;
    ranks = refl;
    queries = refl;
    answer = λ from question. refl;
  };
  commutes = λ s i j a b v apart low low' word word'. ap
      (λ xs. record { rank = s.rank; ranks = s.ranks; queries = s.queries; heard = xs })
      (set_comm s.heard i j a b apart);
}
