-- What the contracts of the walk cite.
--
--   stage_of s         == the stage, as the definition of the walk has it
--   stage_told o       == the stage that is told, or that there is none
--   verdict_of r       == whether a result is an answer, or the refusal
--   told_verdict v     == the result that a verdict tells
--   judged rs stage    == the verdict of the walk on records that are cut where the bytes end
--   stepped rs r       == what a step makes of the verdict, with the records after it
--   StepCall stage r s == the step from the stage over the record, whatever comes after it
use Rattle.std.specs.Prelude.{◌≡◌, true, false, List, [], ◌∷◌, length, ltb, Option, Some, None}
use Rattle.std.specs.Prelude.{Ok, Err}
use Rattle.std.proofs.Math.Option as maybe
use Rattle.meaning.specs.Answers.{number_of, Reply, told}
use Rattle.meaning.specs.Result as outcome
use Rattle.meaning.specs.Result.{refused, answered, map_result}
use Rattle.meaning.specs.Route as route
use Rattle.meaning.specs.Route.{RouteRecord, look_up, body_lengths, admitted, stopped}
use Rattle.route.specs.declared.walk.Stage.{Stage}

abbrev pub stage_of : Stage → route.Stage
stage_of Stage.Start = route.at_start
stage_of Stage.AfterBox = route.after_box
stage_of Stage.AfterField = route.after_field
stage_of Stage.Factors = route.in_factors
stage_of Stage.Terms = route.in_terms
stage_of Stage.End = route.after_end

abbrev pub stage_told : Option Stage → maybe.Option route.Stage
stage_told None = maybe.none
stage_told (Some s) = maybe.some (stage_of s)

unfoldable pub verdict_of : {A : Type 0} → outcome.Result A → outcome.Result (Unit {0})
verdict_of r = map_result (λ _. tt) r

unfoldable pub told_verdict : Reply (Unit {0}) → outcome.Result (Unit {0})
told_verdict r = told (λ a. a) r

unfoldable pub judged : List RouteRecord → route.Stage → outcome.Result (Unit {0})
judged [] stage = verdict_of (stopped stage)
judged (r ∷ rs) stage =
    elim (look_up r.kind body_lengths) [
      | maybe.none ↦ refused 2
      | maybe.some n ↦ elim (ltb (length r.body) n) [
        | true ↦ refused 3
        | false ↦ elim (look_up r.kind (admitted stage)) [
          | maybe.none ↦ refused 4
          | maybe.some after ↦ judged rs after
        ]
      ]
    ]

unfoldable pub stepped : List RouteRecord → Reply Stage → outcome.Result (Unit {0})
stepped rs (Ok after) = judged rs (stage_of after)
stepped rs (Err r) = refused (number_of r)

pub record StepCall (stage : route.Stage) (r : RouteRecord) (s : Reply Stage) : Type 0 where
  pub rest : (rs : List RouteRecord) → judged (r ∷ rs) stage ≡ stepped rs s
