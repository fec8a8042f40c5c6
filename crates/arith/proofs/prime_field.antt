pub mod PrimeForm
