-- The state of a rank that asks for sums, read from the fields.
use Rattle.std.specs.Prelude.{map}
use Rattle.app_histo_ig.specs.declared.ig_asker.IgAsker.TheInside.{Inside}
use Rattle.app_histo_ig.specs.code.IgSent.{question_of}
use Rattle.app_histo_ig.specs.Asking.{AskingState}

abbrev pub asking_state : Inside → AskingState
asking_state s =
    record {
      rank = s.rank;
      ranks = s.ranks;
      queries = map (question_of s.ranks) s.own.items;
      sums = s.sums.items;
      answers = s.answers.items;
    }
