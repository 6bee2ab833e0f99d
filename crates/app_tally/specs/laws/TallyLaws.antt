-- The laws of tally.
use Rattle.std.proofs.Common.{ℕ, ◌<◌, List, map, get_or, All, arith, refl, ap, lit<}
use Rattle.std.proofs.Math.Nat.{mod-lt}
use Rattle.std.proofs.lemmas.List.Elements.{All-nil, All-map}
use Rattle.std.specs.List.{sum}
use Rattle.elastic.specs.Spelling.{IsLetter}
use Rattle.elastic.specs.LetterLaws.{LetterLaws}
use Rattle.app_tally.specs.laws.CountOrder.{counted_comm}
use Rattle.app_tally.specs.Tallies.{TallyState, IsTallying, tally_rules, counter_of}

-- lines go to ranks
goes : (s : TallyState) → IsTallying s
    → All (λ (e : ℕ × List ℕ). (e.0 < s.ranks) × IsLetter e.1) (map (λ l. (counter_of s.ranks l, l)) s.own)
goes s v =
    let low : s.rank < s.ranks = v.rank in
    All-map (λ (e : ℕ × List ℕ). (e.0 < s.ranks) × IsLetter e.1) (λ l. (counter_of s.ranks l, l)) s.own
    (λ k d l. (mod-lt (sum (get_or s.own k d)) (let some : 0 < s.ranks = omega arith in some), v.lines k d l))

pub tally_laws : LetterLaws tally_rules
tally_laws =
    record {
      own = λ s v. v.rank;
      emits = goes;
      commutes = λ s f g l m v d lf lg il im. ap (λ c. record s { came = c }) (counted_comm m l s.came);
      keeps = λ s f l v low is. record {
        valid = record { rank = v.rank; lines = v.lines };
        rank = refl;
        ranks = refl;
        round = refl;
        shape = refl;
        most = refl;
        letters = refl;
      };
      vote_below = λ s v. lit< tt;
      next = λ s votes v low. record {
        valid = record { rank = v.rank; lines = All-nil IsLetter };
        rank = refl;
        ranks = refl;
        round = refl;
        shape = refl;
        most = refl;
      };
      most_below = λ s v. lit< tt;
    }
