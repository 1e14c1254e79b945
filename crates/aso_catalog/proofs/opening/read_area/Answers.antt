use Rattle.std.proofs.Common.{◌≡◌, ◌*◌, ◌∙◌, ℕ, List, Option, Some, length, refl, sym, subst}
use Rattle.std.specs.Prelude.{IfSome}
use Rattle.aso_disk.specs.Slots.{piece}
use Rattle.aso_catalog.specs.Faults.{BadIs}
use Rattle.aso_catalog.specs.Image.{area}
use Rattle.aso_catalog.specs.Opening.{IsBad}
use Rattle.aso_catalog.specs.declared.fault.RecordFault.{RecordFault}
use Rattle.aso_catalog.proofs.opening.read_area.Goals as goal

-- what was read is an area
read_is : (o : Option (List ℕ)) (at n m : ℕ) (into s : List ℕ) → o ≡ Some s → n ≡ m → IfSome o (λ b. into ≡ piece at n b) → piece at m s ≡ into
read_is o at n m into s was same is = let P : Option (List ℕ) → Type 0 = λ p. IfSome p (λ b. into ≡ piece at n b) in let Q : ℕ → Type 0 = λ k. into ≡ piece at k s in sym (subst Q same (subst P was is))

pub returns-in-Ok-look-clause-found : goal.returns-in-Ok-look-clause-found
unfolding area
returns-in-Ok-look-clause-found g c = record {
  bytes = c.read.new.into;
  long = c.read.auto.into ∙ c.requires.space;
  is_told = λ image was. read_is (g.C.Slots.seen c.args.slots.now) (131072 * c.args.number) (length c.args.buffer.now) 131072 c.read.new.into image was c.requires.space c.in-Ok.ensures.bytes;
  has = c.in-Ok-look.ensures.found;
}

pub returns-in-Err-Bad-clause-bad : goal.returns-in-Err-Bad-clause-bad
unfolding area
returns-in-Err-Bad-clause-bad g c =
    let bad = subst (λ (f : RecordFault). BadIs f (IsBad c.read.new.into)) c.in-Err-Bad.field-0-is c.in-Err-Bad.ensures.bad in (
      refl,
      refl,
      record {
        bytes = c.read.new.into;
        long = c.read.auto.into ∙ c.requires.space;
        is_told = λ image was. read_is (g.C.Slots.seen c.args.slots.now) (131072 * c.args.number) (length c.args.buffer.now) 131072 c.read.new.into image was c.requires.space c.in-Ok.ensures.bytes;
        has = bad.1;
      },
    )
