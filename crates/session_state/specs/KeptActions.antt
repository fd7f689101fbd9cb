-- What is asked of a station, as it is kept: an action or none, by one enum.
use Rattle.std.specs.Prelude.{◌≡◌, ℤ, refl, Option, Some, None}
use Rattle.sl_lines.specs.declared.actions.Action.{Action}
use Rattle.sl_lines.specs.declared.actions.Action.TheVariants.{Data as DataAction, Fetch as FetchAction}
use Rattle.sl_lines.specs.declared.actions.Action.TheVariants.{Time as TimeAction}
use Rattle.session_state.specs.declared.kept_action.Case.{Case}
use Rattle.session_state.specs.declared.kept_action.Case.TheVariants.{Nothing, Data, Fetch, From, Between}

-- the action that a case stands for
abbrev pub action_of : Case → Option Action
action_of Nothing = None
action_of (Data number begin) = Some (DataAction number begin)
action_of (Fetch number begin) = Some (FetchAction number begin)
action_of (From begin) = Some (TimeAction begin None)
action_of (Between begin last) = Some (TimeAction begin (Some last))

-- the case that stands for an action
abbrev pub case_of : Option Action → Case
case_of None = Nothing
case_of (Some (DataAction number begin)) = Data number begin
case_of (Some (FetchAction number begin)) = Fetch number begin
case_of (Some (TimeAction begin None)) = From begin
case_of (Some (TimeAction begin (Some last))) = Between begin last

-- the moment before which no wanted record ends, and that after which none starts
abbrev pub begin_of : Option Action → Option ℤ
begin_of None = None
begin_of (Some (DataAction number begin)) = begin
begin_of (Some (FetchAction number begin)) = begin
begin_of (Some (TimeAction begin last)) = begin

abbrev pub end_of : Option Action → Option ℤ
end_of None = None
end_of (Some (DataAction number begin)) = None
end_of (Some (FetchAction number begin)) = None
end_of (Some (TimeAction begin last)) = last

-- That case is the case again.
pub case-again : (case : Case) → case_of (action_of case) ≡ case
case-again Nothing = refl
case-again (Data number begin) = refl
case-again (Fetch number begin) = refl
case-again (From begin) = refl
case-again (Between begin last) = refl
