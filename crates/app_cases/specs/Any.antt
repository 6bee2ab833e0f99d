-- Any of the applications, as one program: a tree with a leaf for each, and the ways to the leaves.
use Rattle.std.specs.Prelude.{ℕ, List, ◌∷◌}
use Rattle.either.specs.declared.Either.{Either}
use Rattle.either.specs.declared.Either.TheVariants.{Left, Right}
use Rattle.round_program.specs.Rules.{Rules}
use Rattle.round_program.specs.Injections.{Injects}
use Rattle.round_program.specs.Eithers.{either_rules}
use Rattle.round_program.specs.EitherLaws.{left_is_case, right_is_case, case_of_case}
use Rattle.app_histo_ig.specs.Histos.{HistoState, histo_rules}
use Rattle.app_histo_ig.specs.Igs.{IgState, ig_rules}
use Rattle.app_histo_ig.specs.Sums.{SumsState, sums_rules}
use Rattle.app_permute.specs.Permutes.{PermuteState, permute_rules}
use Rattle.app_permute.specs.Transposes.{TransposeState, transpose_rules}
use Rattle.app_topo.specs.Topos.{TopoState, topo_rules}
use Rattle.app_sssp.specs.Sssps.{SsspState, sssp_rules}
use Rattle.delta_step.specs.Deltas.{DeltaState, delta_rules}
use Rattle.elastic.specs.Mails.{MailState, mail_rules}
use Rattle.app_tally.specs.Tallies.{TallyState, tally_rules}

-- A rank of one of the applications. ig is there twice: whole, and its sums alone, as it begins
-- if ranks then ask each other.
-- topo and tally, in its mailer, are those that put things in order.
abbrev pub GatherState : Type 0
GatherState = Either IgState SumsState

abbrev pub ColumnState : Type 0
ColumnState = Either HistoState GatherState

abbrev pub MoveState : Type 0
MoveState = Either PermuteState TransposeState

abbrev pub WalkState : Type 0
WalkState = Either SsspState DeltaState

abbrev pub OrderState : Type 0
OrderState = Either TopoState (MailState TallyState)

abbrev pub LastState : Type 0
LastState = Either OrderState WalkState

abbrev pub OtherState : Type 0
OtherState = Either MoveState LastState

abbrev pub AnyState : Type 0
AnyState = Either ColumnState OtherState

-- What that application does.
abbrev pub gather_rules : Rules GatherState
gather_rules = either_rules ig_rules sums_rules

abbrev pub column_rules : Rules ColumnState
column_rules = either_rules histo_rules gather_rules

abbrev pub move_rules : Rules MoveState
move_rules = either_rules permute_rules transpose_rules

abbrev pub walk_rules : Rules WalkState
walk_rules = either_rules sssp_rules delta_rules

abbrev pub order_rules : Rules OrderState
order_rules = either_rules topo_rules (mail_rules tally_rules)

abbrev pub last_rules : Rules LastState
last_rules = either_rules order_rules walk_rules

abbrev pub other_rules : Rules OtherState
other_rules = either_rules move_rules last_rules

abbrev pub any_rules : Rules AnyState
any_rules = either_rules column_rules other_rules

-- A program's way into another: its states as states of the other, and its runs' shapes as shapes
-- there. A run of the other is then the program's own run.
-- of transpose into any: the state s becomes Right (Left (Right s)), and before the shape 1, 0, 1
-- are written
pub record LeafPath {S T : Type 0} (R : Rules S) (Q : Rules T) : Type 0 where
  pub case : S → T
  pub shape : List ℕ → List ℕ
  pub is_case : Injects R Q case shape

abbrev pub left : {S T : Type 0} (R : Rules S) (Q : Rules T) → LeafPath R (either_rules R Q)
left R Q = record { case = Left; shape = λ shape. 0 ∷ shape; is_case = left_is_case R Q }

abbrev pub right : {S T : Type 0} (R : Rules S) (Q : Rules T) → LeafPath Q (either_rules R Q)
right R Q = record { case = Right; shape = λ shape. 1 ∷ shape; is_case = right_is_case R Q }

-- One way, and then another.
abbrev pub then : {S T U : Type 0} {P : Rules S} {Q : Rules T} {R : Rules U} → LeafPath P Q → LeafPath Q R → LeafPath P R
then v w = record {
  case = λ s. w.case (v.case s);
  shape = λ shape. w.shape (v.shape shape);
  is_case = case_of_case v.is_case w.is_case;
}

abbrev pub column_way : LeafPath column_rules any_rules
column_way = left column_rules other_rules

abbrev pub other_way : LeafPath other_rules any_rules
other_way = right column_rules other_rules

abbrev pub gather_way : LeafPath gather_rules any_rules
gather_way = then (right histo_rules gather_rules) column_way

abbrev pub move_way : LeafPath move_rules any_rules
move_way = then (left move_rules last_rules) other_way

abbrev pub last_way : LeafPath last_rules any_rules
last_way = then (right move_rules last_rules) other_way

abbrev pub order_way : LeafPath order_rules any_rules
order_way = then (left order_rules walk_rules) last_way

abbrev pub walk_way : LeafPath walk_rules any_rules
walk_way = then (right order_rules walk_rules) last_way

-- The ways of the applications.
abbrev pub histo_way : LeafPath histo_rules any_rules
histo_way = then (left histo_rules gather_rules) column_way

abbrev pub ig_way : LeafPath ig_rules any_rules
ig_way = then (left ig_rules sums_rules) gather_way

abbrev pub sums_way : LeafPath sums_rules any_rules
sums_way = then (right ig_rules sums_rules) gather_way

abbrev pub permute_way : LeafPath permute_rules any_rules
permute_way = then (left permute_rules transpose_rules) move_way

abbrev pub transpose_way : LeafPath transpose_rules any_rules
transpose_way = then (right permute_rules transpose_rules) move_way

abbrev pub topo_way : LeafPath topo_rules any_rules
topo_way = then (left topo_rules (mail_rules tally_rules)) order_way

abbrev pub tally_way : LeafPath (mail_rules tally_rules) any_rules
tally_way = then (right topo_rules (mail_rules tally_rules)) order_way

abbrev pub sssp_way : LeafPath sssp_rules any_rules
sssp_way = then (left sssp_rules delta_rules) walk_way

abbrev pub delta_way : LeafPath delta_rules any_rules
delta_way = then (right sssp_rules delta_rules) walk_way
