-- The options of a walk.
use Rattle.std.specs.Prelude.{ℕ, ◌-◌, ◌^◌, ◌≤◌, ◌&&◌, Bool, true, false, nat_le, Option, refl}
use Rattle.std.specs.Coded.{Coded, code_by, coded×, coded_ℕ, coded_bool, coded_list, coded_option}
use Rattle.odb_base.specs.Path.{Path}
use Rattle.walkdir.specs.declared.builder.Options.{Options}

-- the default for the number of directories open at once, as in the crate `walkdir`
abbrev pub default_max_open : ℕ
default_max_open = 10

-- no entry is deeper: depths are kept in 64 bits
abbrev pub greatest_depth : ℕ
greatest_depth = 2 ^ 64 - 1

-- links are followed at the root alone, ten directories are open at most, and every depth is given
abbrev pub default_options : Options
default_options = record {
  follow_links = false;
  follow_root_links = true;
  max_open = default_max_open;
  min_depth = 0;
  max_depth = greatest_depth;
  contents_first = false;
  same_file_system = false;
}

-- whether entries of a depth are given
abbrev pub is_given : Options → ℕ → Bool
is_given options depth = nat_le options.min_depth depth && nat_le depth options.max_depth

-- what holds of the options of each walk
pub record AreBuilt (options : Options) : Type 0 where
  pub some_open : 1 ≤ options.max_open
  pub some_depth : options.min_depth ≤ options.max_depth

-- a walk to be made: its root, its options, and the sorter of entries, if they are sorted
pub record Built (S : Type 0) : Type 0 where
  pub root : Path
  pub options : Options
  pub sorter : Option S

-- the walk to be made, with other options
abbrev pub with_options : {S : Type 0} → Built S → Options → Built S
with_options walk options = record walk { options = options }

-- ---- how built walks are distinguished, for their model

abbrev Parts : Type 0
Parts = Bool × (Bool × (ℕ × (ℕ × (ℕ × (Bool × Bool)))))

abbrev pub coded_options : Coded Options
coded_options =
    code_by Parts (coded× coded_bool (coded× coded_bool (coded× coded_ℕ (coded× coded_ℕ (coded× coded_ℕ (coded× coded_bool coded_bool))))))
    (λ o. (o.follow_links, (o.follow_root_links, (o.max_open, (o.min_depth, (o.max_depth, (o.contents_first, o.same_file_system)))))))
    (λ p. record {
      follow_links = p.0;
      follow_root_links = p.1.0;
      max_open = p.1.1.0;
      min_depth = p.1.1.1.0;
      max_depth = p.1.1.1.1.0;
      contents_first = p.1.1.1.1.1.0;
      same_file_system = p.1.1.1.1.1.1;
    })
    (λ _. refl)

abbrev pub coded_built : {S : Type 0} → Coded S → Coded (Built S)
coded_built {S} sorter =
    code_by (Path × (Options × Option S)) (coded× (coded_list (coded_list coded_ℕ)) (coded× coded_options (coded_option sorter)))
    (λ b. (b.root, (b.options, b.sorter)))
    (λ p. record { root = p.0; options = p.1.0; sorter = p.1.1 }) (λ _. refl)
