-- What is shown of an entry that is found.
use Rattle.std.proofs.Common.{◌≡◌, ℕ, List, Some, None, Ok, Err, Option, Result, arith}
use Rattle.std.specs.Option.{option_map}
use Rattle.std.specs.Result.{result_ok, result_unwrap_or}
use Rattle.std.proofs.lemmas.Bool.Decides.{nat_tests}
use Rattle.model.specs.declared.record.Record.TheVariants.{Root, Link, Ephemeron}
use Rattle.model.specs.declared.record.Strength.{Strength}
use Rattle.model.specs.declared.record.Strength.TheVariants.{Phantom}
use Rattle.model.specs.Strengths.{strength_of, strength_if}
use Rattle.snapshot.specs.Numbers.{u16_at, u32_at}
use Rattle.snapshot.specs.Sections.{entry}
use Rattle.snapshot.specs.Laid.{size_of, root_of, link_of, ephemeron_of}
use Rattle.snapshot.specs.Judged.{u16_entry, u32_entry}

-- an entry that is found is at a place
abbrev FoundAs : ℕ → List ℕ → Option ℕ → List ℕ → Type 0
FoundAs w s o e = Some e ≡ option_map (entry w s) o

pub size_found : (cs : List ℕ) (o : Option ℕ) (e : List ℕ) → FoundAs 8 cs o e → Some (u32_at e 4) ≡ size_of cs o
size_found cs None e p = cc
size_found cs (Some k) e p = let q : e ≡ entry 8 cs k = cc in rw (q, u32_entry 8 k 4 cs (omega arith))

pub root_found : (rs : List ℕ) (o : Option ℕ) (e : List ℕ) → FoundAs 4 rs o e →
    Some (Root (u16_at e 2)) ≡ root_of rs o
root_found rs None e p = cc
root_found rs (Some k) e p = let q : e ≡ entry 4 rs k = cc in rw (q, u16_entry 4 k 2 rs (omega arith))

pub link_found : (ls : List ℕ) (o : Option ℕ) (e : List ℕ) → FoundAs 8 ls o e →
    Some (Link (u16_at e 2) (u16_at e 4) (strength_of (u16_at e 6))) ≡ link_of ls o
link_found ls None e p = cc
link_found ls (Some k) e p =
    let q : e ≡ entry 8 ls k = cc in
    rw (q, u16_entry 8 k 2 ls (omega arith), u16_entry 8 k 4 ls (omega arith), u16_entry 8 k 6 ls (omega arith))

pub ephemeron_found : (es : List ℕ) (o : Option ℕ) (e : List ℕ) → FoundAs 8 es o e →
    Some (Ephemeron (u16_at e 2) (u16_at e 4) (u16_at e 6)) ≡ ephemeron_of es o
ephemeron_found es None e p = cc
ephemeron_found es (Some k) e p =
    let q : e ≡ entry 8 es k = cc in
    rw (q, u16_entry 8 k 2 es (omega arith), u16_entry 8 k 4 es (omega arith), u16_entry 8 k 6 es (omega arith))

-- a number that is no strength's stands for a phantom
pub strength_or_phantom : {E : Type 0} (r : Result Strength E) (k : ℕ) → result_ok r ≡ strength_if k →
    result_unwrap_or r Phantom ≡ strength_of k
strength_or_phantom {E} (Ok s) k e = grind (arith, nat_tests)
strength_or_phantom {E} (Err x) k e = grind (arith, nat_tests)
